-- words, numbers and names, and how a text is cut into them
pub mod Tokens
