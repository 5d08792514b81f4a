-- What the contracts cite, with its laws.
pub mod Sound
pub mod Besides
