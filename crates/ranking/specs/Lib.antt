pub mod Rankings
