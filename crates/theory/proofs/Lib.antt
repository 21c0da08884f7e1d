pub mod Trajectories
pub mod Sweeps
