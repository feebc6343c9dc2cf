pub mod ExportsRight
