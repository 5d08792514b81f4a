-- One exchange on words, in reading order.
pub mod Words
pub mod Step
