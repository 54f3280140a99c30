pub mod LineCause
