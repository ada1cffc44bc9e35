-- The theorem (Claim): both engines give the same from switches that are alike, call by call (Step). Flows by cookie are the same whatever the
-- order of storage (Unordered), an order follows its flows (Follows, by Sorted and Renumbered), and its first match is the best (Decides), so
-- frames take one way (SameWay).
pub mod Sorted
pub mod Renumbered
pub mod Follows
pub mod Decides
pub mod Unordered
pub mod SameWay
pub mod Step
pub mod Claim
