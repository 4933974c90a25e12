pub mod Cut
pub mod Width
pub mod Words
pub mod Agreement
pub mod Table
pub mod DivideRows
pub mod Demand1
