mod Lists
mod Rows
mod Calls
mod Parts
mod Steps
mod Owning
