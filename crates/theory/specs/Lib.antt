pub mod Meaning
pub mod Sizes
pub mod Pairs
pub mod Trajectories
pub mod Recorded
pub mod Turning
pub mod Results
