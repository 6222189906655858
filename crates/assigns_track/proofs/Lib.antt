mod Tracks
