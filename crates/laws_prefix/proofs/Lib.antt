pub mod Cut
pub mod Net
pub mod Module
pub mod Stim
