-- Laws of the definitions of specs/, for whoever proves code against them; and the points of document 01.
pub mod Cases
pub mod Arrays
pub mod Bytes
pub mod Region
pub mod FieldTable
pub mod Users
pub mod GroupId
pub mod Address
pub mod Keyed
pub mod Mapped
pub mod Rows
pub mod Deciding
pub mod Egress
pub mod Tables
pub mod Writes
pub mod Journal
pub mod Charge
pub mod Agreement
pub mod Switch
pub mod PointTable
mod Points
mod Routing
mod Order
