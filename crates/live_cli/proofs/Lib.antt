mod Ends
mod Fronts
mod Sources
mod Routes
