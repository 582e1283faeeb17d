-- What a listing that was laid out holds. The listing itself is the model's `listing_of`.
pub mod Laid
