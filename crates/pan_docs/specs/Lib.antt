pub mod PanDocs
pub mod Agreement
