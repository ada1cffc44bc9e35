-- Laws of the order: Flows speaks of the flow in a place, Halving of the search by halves, Moved of places that get new numbers.
mod Flows
mod Halving
mod Moved
