-- What the contracts cite, with its laws: the answers; the lines of a sheet.
pub mod Meaning
pub mod Sheets
