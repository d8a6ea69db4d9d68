mod Answering
mod Asking
mod Made
