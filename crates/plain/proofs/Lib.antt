-- Laws of the plain engine on plain values: Standing and Ends of its store, Scanning of its scan.
mod Standing
mod Ends
mod Scanning
