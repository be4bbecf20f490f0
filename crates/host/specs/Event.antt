-- What a receive of a host reports (01, "receive").
pub data HostEvent : Type 0 where
  Nothing : HostEvent
  Wait : HostEvent
  Attached : HostEvent
  Rejected : HostEvent
  Data : HostEvent
  Reset : HostEvent
