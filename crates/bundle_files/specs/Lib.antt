pub mod Steps
pub mod StepsView
pub mod StepReading
pub mod Fault
pub mod Manifest
pub mod ManifestView
pub mod Held
pub mod Bundle
