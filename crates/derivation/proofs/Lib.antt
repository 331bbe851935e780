-- The theorems, from the laws that they rest on upward; then the laws of what is printed.
pub mod Matrices
pub mod Choices
pub mod Circulant
pub mod Reading
pub mod Lists
pub mod Planes
pub mod Members
pub mod Words
pub mod Printing
