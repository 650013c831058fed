pub mod Parts
pub mod Adding
pub mod Onward
pub mod Decimal
pub mod Cuts
pub mod Steps
pub mod Joined
pub mod Accepting
pub mod Formed
pub mod Shapes
pub mod Clean
pub mod Members
pub mod LinkMembers
pub mod Listed
pub mod WholeText
pub mod ExactText
mod Worked
