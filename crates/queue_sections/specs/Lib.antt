-- What the writers of mailboxes and mutexes promise.
pub mod Parts
