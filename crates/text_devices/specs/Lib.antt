pub mod Devices
pub mod Ends
pub mod Faults
pub mod LineInputs
pub mod LineSteps
pub mod Pendings
pub mod Transfer
