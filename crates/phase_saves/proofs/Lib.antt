mod Law
mod Listing
mod Ups
mod Nodes
mod Seeing
