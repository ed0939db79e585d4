mod Fronts
mod Signs
mod MadeLines
mod Accepted
mod Counted
mod Solvable
mod Worked
