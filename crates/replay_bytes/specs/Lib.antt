-- What the contracts cite, with its laws.
pub mod Wide
pub mod HostReplay
