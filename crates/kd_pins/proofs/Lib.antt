mod Places
mod Rings
