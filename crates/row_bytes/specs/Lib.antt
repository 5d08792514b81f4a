-- What the contracts cite, with its laws.
pub mod HostRow
