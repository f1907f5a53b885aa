pub mod CommandLines
pub mod CommandsBuilt
pub mod ExplorationsRead
pub mod NumbersRead
pub mod SeedsRead
pub mod Subcommands
pub mod TimingsRead
pub mod ToldRead
