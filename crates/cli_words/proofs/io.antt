mod Joined
mod Places
mod Printed
mod Progress
mod Scans
mod Spelled
