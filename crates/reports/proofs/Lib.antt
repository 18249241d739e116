pub mod Printing
pub mod Lengths
pub mod DigitsRead
pub mod Saying
