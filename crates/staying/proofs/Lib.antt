-- What stays, whatever calls come. Stays: a message whose handle is out (`message_stays`, `cookie_stays`). Returned: one that was put back (`returned_stays`,
-- `ends-takes`, `comes_back`). Times: the same while no call seeks it (`unsought`). Single: the flows (`flows_single`). Carried: what is handed out was carried
-- (`told_carries`). Tail: the pool (`pool_tail`, `part_stays`). Runs shows that the premises can be met. All but the flows lean on Fates, which says what a
-- call does to a slot.
pub mod Fates
pub mod Tail
pub mod Stays
pub mod Returned
pub mod Times
pub mod Single
pub mod Carried
pub mod Runs
