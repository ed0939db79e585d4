mod Lanes
mod Maxima
mod Parts
mod Worked
