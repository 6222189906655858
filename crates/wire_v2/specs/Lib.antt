pub mod Message
pub mod View
pub mod FrameData
pub mod FrameLaws
pub mod FrameGrammar
