-- Laws of flow commands on an ordered table: Ordering of the order by itself, Following of the order after a command, Carrying of a payload.
mod Ordering
mod Following
mod Carrying
