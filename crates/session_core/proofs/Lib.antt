pub mod Goes
pub mod Answered
pub mod Later
pub mod Tail
pub mod Within
