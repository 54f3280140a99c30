pub mod ObjectDma
