mod Members
mod Lows
mod Memberships
mod Listings
mod Choices
mod Monics
mod Uniqueness
