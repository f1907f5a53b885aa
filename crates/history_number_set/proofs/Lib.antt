pub mod Keys
pub mod Joined
pub mod Parted
