pub mod Lockstep
