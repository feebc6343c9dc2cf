pub mod SettledRight
