mod Crossing
mod DealtPasses
mod Endings
mod Gathering
mod Standings
mod Wholly
mod WorkedLinks
