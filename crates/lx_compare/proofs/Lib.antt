mod Covering
mod Listed
mod Raised
mod SameNode
mod Settled
