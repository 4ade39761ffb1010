mod FreeOfSlots
mod Joining
mod KeysInOrder
mod PolicyRoundTrip
mod ReadAgain
mod RoundTrip
