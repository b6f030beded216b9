mod Expansion
mod Settings
mod Steps
mod Made
mod Growth
mod First
mod Ready
mod Deeper
