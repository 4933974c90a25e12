pub mod AllMarked
