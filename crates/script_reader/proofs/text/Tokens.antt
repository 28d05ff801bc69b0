-- words, cut out of their line where they end
pub mod Parting
-- how a text is cut into lines, and a line into words
pub mod Cutting
-- what words that are numbers say
pub mod Numerals
-- names are text
pub mod Naming
-- what is wrong with the numbers of a line
pub mod Ranging
-- what is wrong with numbers that are looked at two at a time
pub mod Pairs
-- the digits of a number in a text
pub mod Decimals
