-- What `order_remainder` goes by of what is handed back.
pub mod Handed
