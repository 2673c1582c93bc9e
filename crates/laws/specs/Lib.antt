pub mod Choice
pub mod Lists
pub mod Toward
pub mod Fields
pub mod Bits
pub mod Integers
pub mod Totals
