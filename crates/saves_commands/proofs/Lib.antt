mod Disks
mod Texts
