-- From the tests in the code to the checks of the definitions.
pub mod InARow
pub mod Blanks
