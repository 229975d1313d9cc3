mod Counting
mod Excess
mod Standing
mod Phasing
mod Ending
