-- What a receive of a guest reports (01, "receive").
pub data GuestEvent : Type 0 where
  Nothing : GuestEvent
  Reset : GuestEvent
  Data : GuestEvent
