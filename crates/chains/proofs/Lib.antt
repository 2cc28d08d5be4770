pub mod Joints
pub mod Longest
pub mod Visits
pub mod Settle
pub mod Unique
pub mod Cut
