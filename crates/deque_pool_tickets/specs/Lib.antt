pub mod TicketList
pub mod Takes
