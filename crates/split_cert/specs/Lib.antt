pub mod ErrorNames
pub mod PreorderTrees
pub mod Nodes
pub mod Numbers
pub mod Reading
pub mod Text
pub mod Tree
pub mod Where
