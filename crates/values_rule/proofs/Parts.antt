-- what a step owes that adds no entry, part by part
pub mod Frames
-- the items after a step that adds none
pub mod Asides
-- what a step owes that adds no item, and that it then keeps the value invariant
pub mod Moves
